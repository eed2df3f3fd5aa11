-- What a pool of blocks keeps.
use Rattle.std.specs.Prelude.{◌≡◌, ◌≤◌, [], take, All}
use Rattle.bytes.specs.Filled.{Filled}
use Rattle.io_block.specs.declared.pool.TheConstants.{BLOCK_BYTES, KEPT_BLOCKS}
use Rattle.io_block.specs.declared.kept.Kept.TheInside.{Inside}

-- a block with no bytes, and at least 8,192 free ones
abbrev pub IsFree : Filled → Type 0
IsFree b = (b.items ≡ []) × (BLOCK_BYTES ≤ b.spare)

-- the first `count` places hold free blocks
pub record KeepsBlocks (p : Inside) : Type 0 where
  pub at_most : p.count ≤ KEPT_BLOCKS
  pub free : All IsFree (take p.count p.kept)
