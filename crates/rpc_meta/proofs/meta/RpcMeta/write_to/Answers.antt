use Rattle.std.proofs.Common.{◌≡◌, ◌<◌, ◌^◌, ℕ, List, length, Result, Ok, Err, OnOk, ap, ◌∙◌, arith}
use Rattle.std.proofs.lemmas.List.{length-append}
use Rattle.pb_wire.specs.brpc_model.specs.Meta.{Meta, read_meta}
use Rattle.pb_wire.specs.brpc_model.specs.Spelling.{meta_bytes}
use Rattle.rpc_meta.specs.MetaMeaning.{meaning}
use Rattle.rpc_meta.specs.MetaWriting.{Appends, HasPart, MetaFits}
use Rattle.rpc_meta.proofs.RoundTrip.{round_trip}
use Rattle.rpc_meta.proofs.meta.RpcMeta.write_to.Goals as goal

-- what was appended is read back, since the output's length fits
reads_back : {E : Type 0} (m : Meta) (old new : List ℕ) (r : Result (Unit {0}) E) → Appends old (meta_bytes m) r new → OnOk r (MetaFits m) → length new < 2 ^ 64 → OnOk r (HasPart m → read_meta (meta_bytes m) ≡ Ok m)
reads_back m old new (Ok u) appended fits short = let all = ap length appended ∙ length-append old (meta_bytes m) in round_trip m fits (omega (arith, all, short))
reads_back m old new (Err x) appended fits short = tt

pub returns-else-is_err-clause-reads_back : goal.returns-else-is_err-clause-reads_back
returns-else-is_err-clause-reads_back c =
    let out = c.append_meta-written.new.out in
    reads_back (meaning c.args.self.now) c.args.out.now.items out.items c.append_meta-written.result c.append_meta-written.ensures.written c.append_meta-written.ensures.fits (omega (arith, out.ok.0, out.ok.1, out.small))
