mod Members
