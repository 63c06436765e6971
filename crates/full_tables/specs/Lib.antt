-- The numbers of tables 1 to 5.
pub mod Numbers
