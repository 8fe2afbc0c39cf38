mod Unshown
