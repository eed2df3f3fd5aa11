-- A text that was read up to some place.
use Rattle.std.proofs.Common.{◌≡◌, ◌+◌, ◌≤◌, ◌<◌, ℕ, List, Option, [], ◌∷◌, length, fold, Ok, Err, Result, ap, sym, ◌∙◌, subst, arith}
use Rattle.std.proofs.lemmas.List.{length-append}
use Rattle.std.specs.Str.Lines.{lines}
use Rattle.brpc_model.specs.LinePartReads.{Reads}
use Rattle.brpc_model.specs.Items.{Item}
use Rattle.brpc_model.specs.Script.{Faulty, items, one_more, said_behind, with_line, whole, script_of}
use Rattle.brpc_model.proofs.GrowingLineByLine.{stays}
use Rattle.script_lang.specs.declared.error.ScriptError.{ScriptError}
use Rattle.script_lang.specs.declared.error.ScriptError.TheVariants.{Fault}
use Rattle.script_lang.specs.declared.reader.Reader.{Reader}
use Rattle.script_lang.specs.KnownLines.{Knows, LineIs}

-- the reader read what is before the rest
pub record Sofar (text rest : List ℕ) (reader : Reader) : Type 0 where
  pub said : List (Option Item)
  pub knows : Knows reader said
  pub along : fold with_line (Ok said) (lines rest) ≡ fold with_line (Ok []) (lines text)
  pub room : length said + length rest ≤ length text

longer : (said : List (Option Item)) (read : Reads (Option Item)) (more : List (Option Item)) → one_more said read ≡ Ok more → length more ≡ length said + 1
longer said (Ok i) more e = ap length (sym (ok_same _ _ e)) ∙ length-append said (i ∷ [])
  where
    ok_same : (xs ys : List (Option Item)) → let a : Faulty (List (Option Item)) = Ok xs in a ≡ Ok ys → xs ≡ ys
    ok_same xs ys e = cc
longer said (Err kind) more e = absurd (cc)

-- one more line was read
pub read_more : (text rest line behind : List ℕ) (old new : Reader) (sofar : Sofar text rest old) → lines rest ≡ line ∷ lines behind → length behind < length rest →
    LineIs (with_line (Ok sofar.said) line) (Ok tt) new → Sofar text behind new
read_more text rest line behind old new sofar first shorter now =
    let long = longer sofar.said (said_behind (items sofar.said) line) now.0 now.1 in
    record {
      said = now.0;
      knows = now.2;
      along = ap (λ a. fold with_line a (lines behind)) (sym now.1) ∙ ap (fold with_line (Ok sofar.said)) (sym first) ∙ sofar.along;
      room = omega (arith, long, sofar.room, shorter);
    }

-- the first fault is that of the text
pub read_fault : (text rest line behind : List ℕ) (old : Reader) (sofar : Sofar text rest old) (fault : ℕ × ℕ) → lines rest ≡ line ∷ lines behind → with_line (Ok sofar.said) line ≡ Err fault → script_of text ≡ Err fault
read_fault text rest line behind old sofar fault first now =
    ap whole (sym sofar.along ∙ ap (fold with_line (Ok sofar.said)) first ∙ ap (λ a. fold with_line a (lines behind)) now ∙ stays fault (lines behind))

-- the same, where the reader answered it
pub answers_fault : (text rest line behind : List ℕ) (old new : Reader) (sofar : Sofar text rest old) (answer : Result (Unit {0}) ScriptError) (number kind : ℕ) → lines rest ≡ line ∷ lines behind → answer ≡ Err (Fault number kind) →
    LineIs (with_line (Ok sofar.said) line) answer new → script_of text ≡ Err (number, kind)
answers_fault text rest line behind old new sofar answer number kind first is now =
    let P : Result (Unit {0}) ScriptError → Type 0 = λ a. LineIs (with_line (Ok sofar.said) line) a new in
    read_fault text rest line behind old sofar (number, kind) first (subst P is now)
