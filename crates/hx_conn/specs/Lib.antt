pub mod Causes
pub mod Conns
pub mod Steps
pub mod WhatTold
pub mod Views
