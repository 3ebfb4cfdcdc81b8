mod Giving
