use Rattle.std.proofs.Common.{◌≡◌, map, take}
use Rattle.brpc_model.specs.LinePlaceFaults as model
use Rattle.script_items.specs.LineMeaning.{item}
use Rattle.script_lang.specs.CountedLines.{counts_of}
use Rattle.script_lang.specs.OperationNumbers.{numbers_of}
use Rattle.script_lang.proofs.script.found_of.Given as goal

abbrev pub invariant-loop-line : goal.invariant-loop-line
invariant-loop-line l = record {
  names : l.names ≡ model.names (map item (take l.line-index l.lines));
  counts : l.counts ≡ counts_of (map item (take l.line-index l.lines));
  numbers : l.numbering ≡ numbers_of (map item (take l.line-index l.lines));
}
