mod Wides
