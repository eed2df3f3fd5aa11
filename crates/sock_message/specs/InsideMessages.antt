-- How the buffers of messages and calls lie.
use Rattle.std.specs.Prelude.{◌≡◌, ℕ, ◌+◌, ◌^◌, ◌<◌, ◌≤◌, length}
use Rattle.io_buf.specs.Buffer.{Buffer, block_sizes, rest_sizes}
use Rattle.sock_message.specs.Asked.{Asked}

-- the buffer lies in blocks from its start
abbrev pub LiesInBlocks : Buffer → Type 0
LiesInBlocks buf = buf.sizes ≡ block_sizes (length buf.items)

-- the buffer is what is left of a message in blocks of which so many bytes went, and the whole of it can be counted
pub record LiesBehind (taken : ℕ) (buf : Buffer) : Type 0 where
  pub sizes : buf.sizes ≡ rest_sizes taken (block_sizes (taken + length buf.items))
  pub counted : taken + length buf.items < 2 ^ 64

-- a call has one or two names, its service and its method have short names, its payload and its attachment are at most 65,280 bytes together, and
-- its id has from 2 to 8 versions
pub record KeepsLimits (asked : Asked) : Type 0 where
  pub some_name : 1 ≤ length asked.names
  pub two_names : length asked.names ≤ 2
  pub short_service : length asked.service ≤ 64
  pub short_method : length asked.method ≤ 64
  pub short_body : length asked.payload + length asked.attachment ≤ 65280
  pub some_range : 2 ≤ asked.range
  pub few_versions : asked.range ≤ 8
