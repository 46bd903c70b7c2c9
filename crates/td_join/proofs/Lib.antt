mod Put
mod Contents
mod Beside
mod Held
mod Begun
mod Apart
mod Walked
