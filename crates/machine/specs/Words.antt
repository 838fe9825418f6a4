-- What a refusal prints: its number, and its words in the table of refusals. Assumes nothing.
use Rattle.std.specs.Prelude.{List, ◌++◌, ℕ, codes, decimal}
use Rattle.machine.specs.declared.SetupRefusal.{SetupRefusal}
use Rattle.machine.specs.declared.SetupRefusal.TheVariants.{Width, Depth, Slaves}
use Rattle.machine.specs.declared.Refusal.{Refusal}
use Rattle.machine.specs.declared.Refusal.TheVariants.{LanesOrOffset, NoRegister, TxFull, RxEmpty, ResetValue, TwoSelected}
use Rattle.machine.specs.Bought.{number_of_setup_refusal}
use Rattle.machine.specs.Access.{number_of_refusal}

abbrev pub printed : ℕ → List ℕ → List ℕ
printed n words = decimal n ++ codes ": " ++ words

abbrev pub words_of_setup_refusal : SetupRefusal → List ℕ
words_of_setup_refusal Width = codes "width"
words_of_setup_refusal Depth = codes "depth"
words_of_setup_refusal Slaves = codes "slave count"

abbrev pub setup_refusal_text : SetupRefusal → List ℕ
setup_refusal_text e = printed (number_of_setup_refusal e) (words_of_setup_refusal e)

abbrev pub words_of_refusal : Refusal → List ℕ
words_of_refusal LanesOrOffset = codes "lanes other than 15, or offset not a multiple of 4"
words_of_refusal NoRegister = codes "no register there"
words_of_refusal TxFull = codes "SPIDTR written while its store is full"
words_of_refusal RxEmpty = codes "SPIDRR read while its store is empty"
words_of_refusal ResetValue = codes "SRR written with another value than 0xA"
words_of_refusal TwoSelected = codes "SPISSR written with two or more zeros in its K bits"

abbrev pub refusal_text : Refusal → List ℕ
refusal_text e = printed (number_of_refusal e) (words_of_refusal e)
