mod Decades
