mod Made
mod Framed
mod Answered
mod Sought
