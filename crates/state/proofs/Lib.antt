mod Fields
mod Views
mod Filling
