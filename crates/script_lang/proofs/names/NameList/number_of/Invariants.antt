use Rattle.std.proofs.Common.{◌≡◌, ◌+◌, drop}
use Rattle.seat_programs.specs.Tasks.{name_number}
use Rattle.script_lang.proofs.names.NameList.number_of.Given as goal

abbrev pub invariant-loop-known : goal.invariant-loop-known
invariant-loop-known l = record {
  number : l.number ≡ l.known-index;
  found : name_number l.names l.name ≡ l.number + name_number (drop l.known-index l.names) l.name;
}
