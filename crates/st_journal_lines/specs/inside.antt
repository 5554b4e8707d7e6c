pub mod Journalled
