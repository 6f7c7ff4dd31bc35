mod Copies
