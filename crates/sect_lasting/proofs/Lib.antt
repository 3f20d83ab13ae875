mod Logs
mod Journals
mod Lasting
mod Onward
