-- Laws of the layout that stands in the tables.
pub mod Laying
pub mod Standing
