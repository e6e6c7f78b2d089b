mod Shapes
mod Signs
mod Exact
mod Layouts
mod Cells
mod Loads
mod Nodes
