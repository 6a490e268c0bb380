mod EventLists
mod Printing
