mod Padding
mod Texts
mod Shown
