-- Which commands words may ask for. (Windows Installer command-line options; Public Properties.)
use Rattle.std.specs.Prelude.{◌≡◌, true}
use Rattle.mi_text.specs.PropertyNames.{is_public_name}
use Rattle.mi_props.specs.Props.{all_names}
use Rattle.mi_words.specs.Asked.{of_words}
use Rattle.mi_words.specs.declared.command.Command.{Command}
use Rattle.mi_words.specs.declared.command.Command.TheVariants as read
use Rattle.mi_words.specs.declared.command.TestWords.{TestWords}
use Rattle.mi_commands.specs.Calls.{ArePublic}

-- the properties that the package for tests is run with are public
abbrev pub MayTest : TestWords → Type 0
MayTest t = all_names is_public_name (of_words t.words) ≡ true

-- the properties that a package is run with are public
abbrev pub MayAsk : Command → Type 0
MayAsk (read.Package p) = ArePublic p
MayAsk (read.Selftest t) = MayTest t
MayAsk other = Unit {0}
