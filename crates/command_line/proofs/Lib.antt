mod Asked
mod Chain
mod Checked
mod Once
mod Parsed
mod Places
mod Read
