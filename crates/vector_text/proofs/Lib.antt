-- SPDX-License-Identifier: MIT
mod Spelling
