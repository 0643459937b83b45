mod Coming
mod Pieces
mod Turns
mod Tabulated
