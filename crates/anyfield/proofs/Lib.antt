mod Raised
