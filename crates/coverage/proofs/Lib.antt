mod OneEdge
mod Triangles
mod Regions
