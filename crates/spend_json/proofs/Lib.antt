mod Lists
mod ContextBack
mod InRange
mod Appended
mod Members
mod StatusWriting
mod StatusBack
