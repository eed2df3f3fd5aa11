use Rattle.std.proofs.Common.{◌≡◌, ℕ, ◌+◌, ◌<◌, List, [], ◌++◌, length, take, drop, min, arith, sym, ap, ◌∙◌}
use Rattle.std.proofs.lemmas.List.{take-append-drop, drop-drop}
use Rattle.std.proofs.lemmas.Grind.{common_steps}
use Rattle.sock_io.proofs.mem_source.MemSourceSource.read.Goals as goal

-- what stands before a place and what stands behind it
cut_at : (bytes got : List ℕ) (at m : ℕ) → got ≡ take m (drop at bytes) → drop at bytes ≡ got ++ drop (at + m) bytes
cut_at bytes got at m e = sym (ap (λ x. x ++ drop (at + m) bytes) e ∙ ap (λ x. take m (drop at bytes) ++ x) (sym (drop-drop m at bytes)) ∙ take-append-drop m (drop at bytes))

-- nothing is left where none was given
none_left : (bytes : List ℕ) (at m room : ℕ) → m ≡ min (length (drop at bytes)) room → m ≡ 0 → 0 < room → drop (at + m) bytes ≡ []
none_left bytes at m room e z r = grind (arith, common_steps)

pub returns-clause-bytes : goal.returns-clause-bytes
returns-clause-bytes c =
    let at = c.self.inside.at in
    let bytes = c.self.inside.bytes.items in
    let m = c.copy_front-count.result in
    let left : c.args.self.now.left ≡ drop at bytes = cc in
    let rest : c.from_place-rest.result.now ≡ drop at bytes = cc in
    let got : take m c.copy_front-count.new.room ≡ take m (drop at bytes) = cc in
    let count : m ≡ min (length (drop at bytes)) (length c.args.room.now) = cc in
    (left ∙ cut_at bytes _ at m got, λ z r. none_left bytes at m _ count z c.requires)
