-- What refuses a call, and the count of marks.
pub mod Calls
