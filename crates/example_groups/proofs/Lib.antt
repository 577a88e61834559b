mod Clients
mod Shapes
