-- Facts of which there is one proof each, so that a struct may keep them.
use Rattle.std.specs.Prelude.{ℕ, None, Some}
use Rattle.std.specs.Coded.{×_prop, Unit-prop, le_prop, Coded-set, coded_bool}
use Rattle.model.specs.declared.Right.{Right}
use Rattle.model.specs.declared.Right.TheVariants.{Remove, Swap, Push}
use Rattle.model.specs.declared.Rule.{Rule}
use Rattle.model.specs.declared.Thread.{Thread}
use Rattle.model.specs.Fits.{RightBelow, TopBelow, RightFits, TopFits, RuleFits, SymbolsBelow, ThreadFits}
use Rattle.model.specs.Tops.{Top}
use Rattle.summary.specs.declared.Kind.{Kind}
use Rattle.summary.specs.declared.Kind.TheVariants.{Plain, Lanes, Cross}
use Rattle.summary.specs.Kinds.{KindFits}

-- That the symbols of a right side are below a limit.
right_below : (n : ℕ) (x : Right) → IsProp (RightBelow n x)
right_below n Remove = Unit-prop
right_below n (Swap a) = le_prop
right_below n (Push a b) = ×_prop le_prop le_prop

-- That they are in range.
pub right_prop : (x : Right) → IsProp (RightFits x)
right_prop x = right_below 16 x

-- That a top is below a limit.
top_below : (n : ℕ) (x : Top) → IsProp (TopBelow n x)
top_below n None = Unit-prop
top_below n (Some s) = le_prop

-- That it is in range.
pub top_prop : (x : Top) → IsProp (TopFits x)
top_prop x = top_below 16 x

-- That a rule is.
rule_prop : (g : ℕ) (r : Rule) → IsProp (RuleFits g r)
rule_prop g r x y =
    λ i. record {
      state = le_prop x.state y.state i;
      top = le_prop x.top y.top i;
      next = le_prop x.next y.next i;
      symbols = right_prop r.right x.symbols y.symbols i;
    }

-- That the symbols of a thread are below a limit.
symbols_prop : (n : ℕ) (t : Thread) → IsProp (SymbolsBelow n t)
symbols_prop n t x y =
    λ i. record {
      first = le_prop x.first y.first i;
      top = top_below n t.top x.top y.top i;
      before = λ r h. le_prop (x.before r h) (y.before r h) i;
      new = λ r h. right_below n _ (x.new r h) (y.new r h) i;
    }

-- That a thread is in range.
pub thread_prop : (g : ℕ) (t : Thread) → IsProp (ThreadFits g t)
thread_prop g t x y =
    λ i. record {
      symbols = ×_prop le_prop le_prop x.symbols y.symbols i;
      first = le_prop x.first y.first i;
      top = top_prop t.top x.top y.top i;
      count = le_prop x.count y.count i;
      rules = λ r h. rule_prop g _ (x.rules r h) (y.rules r h) i;
      order = λ r h. le_prop (x.order r h) (y.order r h) i;
      free = λ r h l. Coded-set coded_bool _ _ (x.free r h l) (y.free r h l) i;
      below = symbols_prop t.symbols t x.below y.below i;
    }

-- That a kind is of a table of n controls.
pub kind_prop : (n : ℕ) (k : Kind) → IsProp (KindFits n k)
kind_prop n Plain = Unit-prop
kind_prop n (Lanes base) = le_prop
kind_prop n (Cross l) = le_prop
