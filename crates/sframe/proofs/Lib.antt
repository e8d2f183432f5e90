-- SPDX-License-Identifier: MIT
pub mod Alone
mod Checks
mod Cuts
mod Facts
mod Frames
mod Ledger
mod LineSuites
mod Lines
mod Logged
mod Never
mod Once
pub mod Opens
mod Refusals
pub mod Soundness
pub mod Suites
pub mod Theorem
