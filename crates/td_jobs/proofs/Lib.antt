mod Pipes
mod ServedConnections
