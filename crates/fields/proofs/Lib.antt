-- Laws of fields near a feed's end.
pub mod Ends
