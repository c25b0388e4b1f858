-- What the call that prints the rules answers, and what the store then holds.
use Rattle.std.specs.Prelude.{Bool, true, false, ◌&&◌, List, [], ◌∷◌, ℕ, zero, suc, leb, length}
use Rattle.model.specs.declared.Model.{Model}
use Rattle.model.specs.declared.Thread.{Thread}
use Rattle.model.specs.Tops.{Top}
use Rattle.std.specs.Prelude.{None, Some}
use Rattle.model.specs.Bits.{all_zero}
use Rattle.model.specs.Results.{Result, refused, accepted, refuse, first_of, store_by}
use Rattle.model.specs.Valid.{fault_of}
use Rattle.sequential.specs.Listed.{rules}
use Rattle.sequential.specs.Text.{text_of}

-- No top is named.
unfoldable pub unnamed : Top → Bool
unnamed None = true
unnamed (Some s) = false

-- A thread without held rules and a named top.
unfoldable pub plain_thread : Thread → Bool
plain_thread t = all_zero t.held && unnamed t.top

-- A model without them: what a system without held rules and tops can say of it is all there is to say.
unfoldable pub plain : Model → Bool
plain m = plain_thread m.a && plain_thread m.b

-- The refusal of a model: its fault, then 21 for held rules or named tops; 0 for none.
unfoldable pub model_refusal : Model → ℕ
model_refusal m = first_of (fault_of m ∷ refuse 21 (plain m) ∷ [])

-- The text of a model's rules.
abbrev pub text_for : Model → List ℕ
text_for m = text_of (rules m)

-- What is refused, in order: the model, then 7 for a store shorter than the text; 0 for nothing.
unfoldable pub print_refusal : Model → ℕ → ℕ
print_refusal m size = first_of (model_refusal m ∷ refuse 7 (leb (length (text_for m)) size) ∷ [])

-- The answer, by the refusal that is due: its number, or with none the length of the text.
abbrev pub printed_by : ℕ → List ℕ → Result ℕ
printed_by zero text = accepted (length text)
printed_by (suc n) text = refused (suc n)

-- The answer for a model, by the length of the store.
unfoldable pub printed_of : Model → ℕ → Result ℕ
printed_of m size = printed_by (print_refusal m size) (text_for m)

-- What the store holds after the call.
unfoldable pub print_store : Model → List ℕ → List ℕ
print_store m store = store_by (print_refusal m (length store)) (text_for m) store
