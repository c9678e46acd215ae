mod Spans
mod Covering
mod Standing
mod Sixteen
