use Rattle.std.proofs.Common.{arith, ap, sym, ◌∙◌, subst, ℕ, ◌≡◌, ◌<◌, ◌+◌, ◌*◌, ◌%◌, ◌/◌, [], ◌∷◌}
use Rattle.corr_core.specs.IdSlotWord.{parts}
use Rattle.corr_core.specs.declared.marks.Hand.TheVariants.{Empty, Full}
use Rattle.corr_core.specs.declared.marks.Token.TheVariants.{Claimed}
use Rattle.corr_core.specs.declared.marks.Note.TheVariants.{Made}
use Rattle.corr_core.specs.IdSlotLaw.{is_made}
use Rattle.id_rule.specs.LawfulIdTable.{notes_of}
use Rattle.corr_id.specs.SeatBehindIdCalls.{is_at, Became, one}
use Rattle.corr_id.proofs.TokensOfIdCalls.{made_noted}
use Rattle.corr_id.proofs.SlotBehindViewChange.{became_both}
use Rattle.corr_id.proofs.table.IdTable.make.Goals as goal
use Rattle.sock_words.specs.PackedWords.{id_first}
use Rattle.sock_words.specs.Totals.{total}

pub unreachable-requires : goal.unreachable-requires
unreachable-requires g c = c.in_default.not-None (c.move_call-found.ensures.moved (Claimed (parts c.read_first.result).first Empty) c.read_first.ensures.read.tokens).0

pub make_id-requires-clause-seat : goal.make_id-requires-clause-seat
make_id-requires-clause-seat g c = let m = c.move_call-found.ensures.moved (Claimed (parts c.read_first.result).first Empty) c.read_first.ensures.read.tokens in
    (c.move_call-found.ensures.seat.0 ∙ (c.read_first.ensures.seat.0 ∙ c.requires.seat.0), subst (λ (n : ℕ). 0 < n) (sym (m.1.share ∙ c.read_first.ensures.read.share)) c.requires.seat.1)

pub make_id-requires-clause-claim : goal.make_id-requires-clause-claim
make_id-requires-clause-claim g c = let m = c.move_call-found.ensures.moved (Claimed (parts c.read_first.result).first Empty) c.read_first.ensures.read.tokens in
    let first : (parts c.pack-word.result.0).first ≡ (parts c.read_first.result).first = c.pack-word.ensures.parts.first_is ∙ c.first-first.ensures in
    (c.args.content, m.1.tokens ∙ ap (λ (y : ℕ). Claimed y (Full c.args.content) ∷ []) (sym first))

pub returns-clause-made : goal.returns-clause-made
returns-clause-made g c = rw (c.pack.ensures.word) (let m = c.move_call-found.ensures.moved (Claimed (parts c.read_first.result).first Empty) c.read_first.ensures.read.tokens in
    let to : (parts c.pack-word.result.0).first ≡ c.first-first.result = c.pack-word.ensures.parts.first_is in
    let first : (parts c.pack-word.result.0).first ≡ (parts c.read_first.result).first = to ∙ c.first-first.ensures in
    let r : (parts c.pack-word.result.0).range ≡ c.args.range = c.pack-word.ensures.parts.range_is in
    let has = m.1.tokens ∙ ap (λ (y : ℕ). Claimed y (Full c.args.content) ∷ []) (sym first) in
    let small = c.first-first.type_inv in
    let low : (parts c.pack-word.result.0).first ≡ (c.args.at * 4294967296 + c.first-first.result) % 4294967296 = to ∙ (let k : c.first-first.result ≡ (c.args.at * 4294967296 + c.first-first.result) % 4294967296 = omega arith in k) in
    subst (λ l. Became c.args.at c.args.seat.now.me.0 c.make_id.new.seat.me.0 [] l) (λ z. one c.args.at (Made (low z) (r z) c.args.content)) (became_both c.args.at (became_both c.args.at c.read_first.ensures.read m.1) (c.make_id.ensures.made c.args.content has)))

pub returns-clause-before : goal.returns-clause-before
returns-clause-before g c w saw taken =
    let f : c.first-first.result ≡ (parts c.read_first.result).first = c.first-first.ensures in
    let small = c.first-first.type_inv in let k = c.read_first.ensures.before w saw taken in
    let low : c.first-first.result ≡ (c.args.at * 4294967296 + c.first-first.result) % 4294967296 = omega arith in omega (arith, f, k, low)

pub returns-clause-unnoted : goal.returns-clause-unnoted
returns-clause-unnoted g c = rw (c.pack.ensures.word) (λ x even. let f : c.first-first.result ≡ (parts c.read_first.result).first = c.first-first.ensures in
    subst (λ (n : ℕ). total (is_at x (c.args.at * 4294967296 + n)) c.args.seat.now.me.0.kept ≡ 0) (sym f) (c.read_first.ensures.unnoted x even))

pub returns-clause-noted : goal.returns-clause-noted
returns-clause-noted g c =
    let f = c.first-first.result in let small = c.first-first.type_inv in let id = c.pack.result.0 in let is = c.pack.ensures.word in
    let slot : c.args.at ≡ id / 4294967296 = omega (arith, is, small) in
    subst (λ (i : ℕ). 0 < total (is_made (id_first id)) (notes_of i c.make_id.new.seat.me.0.notes)) slot
    (made_noted c.args.at (id_first id) c.args.range c.args.content c.args.seat.now.me.0 c.make_id.new.seat.me.0 (returns-clause-made g c))
