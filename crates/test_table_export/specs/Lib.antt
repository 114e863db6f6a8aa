pub mod Script
pub mod Dump
