mod Asked
mod Made
mod Numbers
mod OneJob
