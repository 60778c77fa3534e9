mod StopCounts
mod LineNumbers
mod StopEnds
mod Examples
