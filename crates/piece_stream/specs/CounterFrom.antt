-- SPDX-License-Identifier: MIT
-- Counter mode (SP 800-38A §6.5) from any byte of the key stream on, as a plaintext in pieces needs it.
-- Assumes nothing.
pub use Rattle.gcm.specs.Counter.{ctr_from}
