-- A script that is read line by line.
use Rattle.std.proofs.Common.{◌≡◌, ℕ, zero, suc, ◌+◌, List, [], ◌∷◌, ◌++◌, length, Ok, Err, refl, ap, sym, ◌∙◌, arith}
use Rattle.std.specs.Prelude.{fold, All}
use Rattle.std.specs.Str.Lines.{lines}
use Rattle.std.proofs.lemmas.List.Elements.{All-append}
use Rattle.exec_script.specs.declared.op.Op.{Op}
use Rattle.exec_script.specs.Scripts.{script_of, with_line, one_more, op_at}

-- whatever lines follow, the fault is that of the first faulty one
stays : (fault : ℕ × ℕ) (more : List (List ℕ)) → fold with_line (Err fault) more ≡ Err fault
stays fault [] = refl
stays fault (line ∷ more) = stays fault more

-- the next line
next : (bytes rest behind line : List ℕ) (ops : List Op) → script_of bytes ≡ fold with_line (Ok ops) (lines rest) → lines rest ≡ line ∷ lines behind →
    script_of bytes ≡ fold with_line (one_more ops (op_at (length ops + 1) line)) (lines behind)
next bytes rest behind line ops said split = said ∙ ap (λ (ls : List (List ℕ)). fold with_line (Ok ops) ls) split

-- it asks for something
pub said_more : (bytes rest behind line : List ℕ) (ops new : List Op) (number : ℕ) (op : Op) → script_of bytes ≡ fold with_line (Ok ops) (lines rest) → lines rest ≡ line ∷ lines behind →
    number ≡ length ops + 1 → Ok op ≡ op_at number line → new ≡ ops ++ op ∷ [] → script_of bytes ≡ fold with_line (Ok new) (lines behind)
said_more bytes rest behind line ops new number op said split at is grown =
    next bytes rest behind line ops said split
    ∙ ap (λ (n : ℕ). fold with_line (one_more ops (op_at n line)) (lines behind)) (sym at)
    ∙ ap (λ r. fold with_line (one_more ops r) (lines behind)) (sym is)
    ∙ ap (λ (os : List Op). fold with_line (Ok os) (lines behind)) (sym grown)

-- it is faulty
pub said_faulty : (bytes rest behind line : List ℕ) (ops : List Op) (number kind : ℕ) → script_of bytes ≡ fold with_line (Ok ops) (lines rest) → lines rest ≡ line ∷ lines behind →
    number ≡ length ops + 1 → Err kind ≡ op_at number line → script_of bytes ≡ Err (number, kind)
said_faulty bytes rest behind line ops number kind said split at is =
    next bytes rest behind line ops said split
    ∙ ap (λ (n : ℕ). fold with_line (one_more ops (op_at n line)) (lines behind)) (sym at)
    ∙ ap (λ r. fold with_line (one_more ops r) (lines behind)) (sym is)
    ∙ stays (length ops + 1, kind) (lines behind)
    ∙ ap (λ (n : ℕ). Err (n, kind)) (sym at)

single : {X : Type 0} (P : X → Type 0) (x : X) → P x → All P (x ∷ [])
single P x is zero d low = is
single P x is (suc k) d low = absurd (omega (arith, low))

-- what holds of each and of one more holds of all
pub all_more : {X : Type 0} (P : X → Type 0) (old new : List X) (x : X) → All P old → P x → new ≡ old ++ x ∷ [] → All P new
all_more P old new x all is grown = let both = All-append P old (x ∷ []) all (single P x is) in rw grown both
