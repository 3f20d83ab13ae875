mod Attending
mod Closing
mod Fronts
mod Workers
mod PlaceLaws
