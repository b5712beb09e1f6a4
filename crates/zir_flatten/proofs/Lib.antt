mod Around
mod Joining
mod Bringing
mod Laying
