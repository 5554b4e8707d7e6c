pub mod object
