-- What is said in lines, and that it is one.
pub mod Said
