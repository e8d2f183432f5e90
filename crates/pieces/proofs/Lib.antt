-- SPDX-License-Identifier: MIT
mod Begins
mod CallSteps
pub mod CallLaws
pub mod Joined
