-- SPDX-License-Identifier: MIT
mod Entries
