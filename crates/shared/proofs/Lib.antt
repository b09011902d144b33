mod Making
mod Serving
mod Standing
