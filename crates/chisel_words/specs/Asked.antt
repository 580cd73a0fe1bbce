-- The words of a command as plain data.
use Rattle.chisel_words.specs.declared.words.Asked.{Asked}
use Rattle.chisel_words.specs.declared.words.Asked.TheVariants as asked
use Rattle.chisel_words.specs.declared.words.CertifiedWords.{CertifiedWords}
use Rattle.chisel_words.specs.declared.words.MakeWords.{MakeWords}
use Rattle.chisel_words.specs.declared.words.OptimiseWords.{OptimiseWords}
use Rattle.chisel_words.specs.declared.words.RunWords.{RunWords}
use Rattle.chisel_words.specs.declared.words.VerifyWords.{VerifyWords}
use Rattle.chisel_words.specs.Words.{Command, ToVerify, ToOptimise, ToCheck, ToRewrite, ToMigrate, ToRun, ToMake, ToVersion, Verify, Optimise, Certified, Simulate, Make}

abbrev pub to_verify : VerifyWords → Verify
to_verify w = record { source = w.source.now; hardware = w.hardware.now; function = w.function.now; callees = w.callees }

abbrev pub to_run : RunWords → Simulate
to_run w = record { source = w.source.now; hardware = w.hardware.now; inputs = w.inputs.now; function = w.function.now; trials = w.trials }

abbrev pub to_optimise : OptimiseWords → Optimise
to_optimise w = record { source = w.source.now; hardware = w.hardware.now; inputs = w.inputs.now; function = w.function.now; search = w.search }

abbrev pub to_certified : CertifiedWords → Certified
to_certified w = record {
  source = w.source.now;
  hardware = w.hardware.now;
  inputs = w.inputs.now;
  function = w.function.now;
  certificate = w.certificate.now;
}

abbrev pub to_make : MakeWords → Make
to_make w = record { size = w.size; number = w.number }

abbrev pub asked_by : Asked → Command
asked_by (asked.Verify w) = ToVerify (to_verify w)
asked_by (asked.Optimise w) = ToOptimise (to_optimise w)
asked_by (asked.Check w) = ToCheck (to_certified w)
asked_by (asked.Rewrite w) = ToRewrite (to_certified w)
asked_by (asked.Migrate w) = ToMigrate (to_certified w)
asked_by (asked.Run w) = ToRun (to_run w)
asked_by (asked.Make w) = ToMake (to_make w)
asked_by asked.Version = ToVersion
