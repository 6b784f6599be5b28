mod Noting
mod Taking
