-- What holds of the value of a part, where it was read.
use Rattle.std.proofs.Common.{◌≡◌, ℕ, Bool, true, false, cond, Ok, Err, IfOk, refl}
use Rattle.brpc_model.specs.LinePartReads.{Reads, ◌<*>◌, ◌>>=◌}

-- one more part
pub with_part : {A B : Type 0} (f : Reads (A → B)) (a : Reads A) (F : (A → B) → Type 0) (Q : A → Type 0) (P : B → Type 0) → IfOk f F → IfOk a Q → ((g : A → B) (x : A) → F g → Q x → P (g x)) → IfOk (f <*> a) P
with_part (Ok g) (Ok x) F Q P hf ha k = k g x hf ha
with_part (Ok g) (Err e) F Q P hf ha k = tt
with_part (Err e) (Ok x) F Q P hf ha k = tt
with_part (Err e) (Err d) F Q P hf ha k = tt

pub of_part : {A B : Type 0} (g : A → B) (a : Reads A) (Q : A → Type 0) (P : B → Type 0) → IfOk a Q → ((x : A) → Q x → P (g x)) → IfOk (Ok g <*> a) P
of_part g (Ok x) Q P ha k = k x ha
of_part g (Err e) Q P ha k = tt

pub of_parts : {A B C : Type 0} (g : A → B → C) (a : Reads A) (b : Reads B) (Q : A → Type 0) (R : B → Type 0) (P : C → Type 0) → IfOk a Q → IfOk b R → ((x : A) (y : B) → Q x → R y → P (g x y)) → IfOk (Ok g <*> a <*> b) P
of_parts g (Ok x) (Ok y) Q R P ha hb k = k x y ha hb
of_parts g (Ok x) (Err e) Q R P ha hb k = tt
of_parts g (Err e) (Ok y) Q R P ha hb k = tt
of_parts g (Err e) (Err d) Q R P ha hb k = tt

pub of_next : {A B : Type 0} (a : Reads A) (f : A → Reads B) (Q : A → Type 0) (P : B → Type 0) → IfOk a Q → ((x : A) → Q x → IfOk (f x) P) → IfOk (a >>= f) P
of_next (Ok x) f Q P ha k = k x ha
of_next (Err e) f Q P ha k = tt

-- a value behind a test
pub of_test : {A : Type 0} (test : Bool) (a : A) (kind : ℕ) (P : A → Type 0) → (test ≡ true → P a) → IfOk {E = ℕ} (cond test (Ok a) (Err kind)) P
of_test true a kind P k = k refl
of_test false a kind P k = tt

-- a part that is looked at where a test passes
pub of_part_test : {A : Type 0} (test : Bool) (a : Reads A) (kind : ℕ) (P : A → Type 0) → (test ≡ true → IfOk a P) → IfOk (cond test a (Err kind)) P
of_part_test true a kind P k = k refl
of_part_test false a kind P k = tt

-- one of two parts
pub of_either : {A : Type 0} (test : Bool) (a b : Reads A) (P : A → Type 0) → IfOk a P → IfOk b P → IfOk (cond test a b) P
of_either true a b P ha hb = ha
of_either false a b P ha hb = hb

pub weaker : {A : Type 0} (a : Reads A) (Q P : A → Type 0) → IfOk a Q → ((x : A) → Q x → P x) → IfOk a P
weaker (Ok x) Q P h k = k x h
weaker (Err e) Q P h k = tt
