mod Feeding
