mod Bindings
