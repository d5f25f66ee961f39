mod Forms
mod Listed
mod Lines
mod Spaced
